pub mod Joins
pub mod Keeping
pub mod Turns
