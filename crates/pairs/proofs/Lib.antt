pub mod Points
pub mod Bytes
pub mod Lesser
pub mod Fold
pub mod Tied
