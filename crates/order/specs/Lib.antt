pub mod Queue
pub mod Desk
pub mod History
pub mod Promise
pub mod Called
