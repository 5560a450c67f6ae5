pub mod Book
pub mod Kept
pub mod Noted
pub mod Possible
pub mod Again
pub mod Pulled
pub mod TwoHits
