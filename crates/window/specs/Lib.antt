pub mod Window
pub mod Count
pub mod Plain
