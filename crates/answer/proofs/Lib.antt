pub mod Causes
pub mod Gives
pub mod Exactly
pub mod Said
pub mod Tied
