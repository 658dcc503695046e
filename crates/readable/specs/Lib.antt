pub mod Clocks
pub mod Stamps
pub mod Met
