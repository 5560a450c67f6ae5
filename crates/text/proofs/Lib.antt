pub mod Decimal
pub mod Pieces
pub mod Decided
pub mod Tied
