pub mod Codes
pub mod Exports
