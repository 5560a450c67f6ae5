pub mod Steps
pub mod Factors
pub mod Store
