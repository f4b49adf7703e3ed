pub mod FirstRuns
pub mod Steps
pub mod Readings
