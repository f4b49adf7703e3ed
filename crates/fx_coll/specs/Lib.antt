pub mod Keeping
pub mod Answer
pub mod Machine
pub mod Rows
