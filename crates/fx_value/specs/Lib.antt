pub mod Columns
pub mod Shape
pub mod Terms
