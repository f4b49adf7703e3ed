pub mod Ballots
pub mod Joins
pub mod Keeping
pub mod Measures
pub mod Turns
