pub mod Rounding
pub mod Halves
pub mod PerThousand
pub mod Tied
