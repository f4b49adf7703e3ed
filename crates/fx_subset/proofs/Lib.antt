pub mod Gathered
pub mod Written
pub mod Apart
pub mod Bounds
pub mod Count
pub mod Cover
pub mod Found
