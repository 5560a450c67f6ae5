pub mod Words
pub mod Shifts
