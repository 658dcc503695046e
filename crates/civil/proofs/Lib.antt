pub mod Dates
pub mod Times
pub mod Lawful
pub mod Telling
