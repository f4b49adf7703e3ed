pub mod Turn
pub mod World
pub mod Rows
pub mod Limits
pub mod Laws
pub mod Seats
pub mod Names
pub mod Alike
