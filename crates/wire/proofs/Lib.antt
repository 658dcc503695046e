pub mod Hexes
pub mod Cuts
pub mod Bigs
pub mod Parsing
