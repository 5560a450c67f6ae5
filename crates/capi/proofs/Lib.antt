pub mod Codes
pub mod Slips
pub mod Written
pub mod Gives
pub mod Told
pub mod Tied
pub mod Decided
