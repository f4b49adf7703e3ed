pub mod Firsts
pub mod Answers
pub mod Machine
mod Rows
