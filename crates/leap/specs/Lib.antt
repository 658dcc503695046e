pub mod Table
pub mod Test
pub mod Room
pub mod Held
pub mod Parts
pub mod Starting
pub mod Change
pub mod Bulletin
