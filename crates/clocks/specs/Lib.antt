pub mod Counts
pub mod Rungs
pub mod Piles
pub mod Forms
pub mod Scales
pub mod Banks
pub mod Simple
pub mod Stamps
