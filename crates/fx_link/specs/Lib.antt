pub mod LinkTable
pub mod Sharing
