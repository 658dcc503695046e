pub mod Ring
pub mod Moves
pub mod Joiner
