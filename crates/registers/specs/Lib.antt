pub mod Registers
pub mod Write
pub mod Plain
