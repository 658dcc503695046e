pub mod Labels
pub mod Leap
pub mod Fold
pub mod Smear
pub mod Windows
