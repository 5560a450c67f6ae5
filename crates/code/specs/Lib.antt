pub mod Block
pub mod Labels
pub mod Reach
