pub mod Tests
pub mod Lists
pub mod Few
pub mod Tally
pub mod Those
