pub mod WorkedFactors
pub mod EveryTable
