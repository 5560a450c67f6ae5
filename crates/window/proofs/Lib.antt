pub mod Runs
pub mod Moved
pub mod Counted
pub mod Proposed
pub mod Figures
pub mod Said
pub mod Tied
