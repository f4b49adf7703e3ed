pub mod ColumnLemmas
pub mod Numbered
pub mod Pairs
pub mod Shapes
pub mod Staying
pub mod Stored
pub mod TermLemmas
pub mod Writes
