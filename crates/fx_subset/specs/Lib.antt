pub mod Elements
pub mod Fault
pub mod Indices
pub mod Runs
