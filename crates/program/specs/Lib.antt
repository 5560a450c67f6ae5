pub mod Program
pub mod Parts
pub mod Sample
pub mod LastLine
