mod Along
mod InStep
pub mod Lengths
pub mod Plain
mod Rows
mod Shared
mod Steps
mod TwoRanks
