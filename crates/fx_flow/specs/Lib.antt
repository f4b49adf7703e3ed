pub mod Loops
pub mod Outward
pub mod Code
pub mod Emits
pub mod Flowing
pub mod Stands
