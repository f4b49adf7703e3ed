pub mod Facts
pub mod Rules
pub mod Work
pub mod Acceptance
pub mod Parts
pub mod Holds
pub mod Statements
