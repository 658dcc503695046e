mod Found
mod Rings
mod Masking
mod Putting
mod Closing
mod Taking
pub mod Always
