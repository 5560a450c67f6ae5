pub mod Answer
pub mod Cause
pub mod Said
