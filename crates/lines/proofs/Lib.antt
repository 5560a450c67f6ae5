pub mod Samples
pub mod Lengths
pub mod Tied
pub mod Decided
