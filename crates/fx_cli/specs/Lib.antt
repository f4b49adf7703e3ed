pub mod Answers
pub mod Built
pub mod Dues
pub mod Ends
