pub mod Allowed
pub mod Reading
pub mod Before
pub mod Named
pub mod TwoBad
pub mod Said
