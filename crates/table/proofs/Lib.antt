pub mod Settled
pub mod Rows
pub mod Table
