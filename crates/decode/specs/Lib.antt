pub mod Equations
pub mod Search
pub mod Decode
