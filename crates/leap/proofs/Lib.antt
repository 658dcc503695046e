pub mod Blanks
pub mod Chain
pub mod Saying
pub mod Offsets
pub mod Bulletins
