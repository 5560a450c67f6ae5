pub mod Read
pub mod Steps
pub mod Exactly
pub mod Said
