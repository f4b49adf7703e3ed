pub mod Written
pub mod Texts
pub mod Marks
pub mod Groupless
pub mod Legality
pub mod Runs
pub mod Ending
pub mod InMemory
