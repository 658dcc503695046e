pub mod Steps
pub mod Both
pub mod Piles
pub mod Scales
pub mod Besides
pub mod Simples
pub mod Stamping
pub mod Told
