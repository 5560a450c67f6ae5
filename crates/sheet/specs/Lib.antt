pub mod Sheet
pub mod Lines
pub mod Undo
pub mod ByTables
