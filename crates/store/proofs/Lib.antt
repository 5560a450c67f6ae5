pub mod Written
pub mod Pairs
pub mod Solved
pub mod Shifts
pub mod Storing
pub mod Tied
pub mod Decided
pub mod Worked
