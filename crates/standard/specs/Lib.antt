pub mod Standard
pub mod Worked
