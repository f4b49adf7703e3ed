pub mod Checks
pub mod Lines
pub mod Words
pub mod Numbers
pub mod Written
pub mod Names
