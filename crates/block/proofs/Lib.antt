pub mod Copy
pub mod Causes
pub mod Done
pub mod Exact
pub mod Tied
pub mod Decided
pub mod Said
