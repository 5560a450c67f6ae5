pub mod EveryTable
pub mod EveryShift
