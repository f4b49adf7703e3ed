pub mod World
pub mod Rounds
pub mod Runs
