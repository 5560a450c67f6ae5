pub mod Made
pub mod Weight
pub mod Listed
pub mod Tied
