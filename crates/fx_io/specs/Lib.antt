pub mod Faults
pub mod States
pub mod Told
pub mod Reading
pub mod Writing
pub mod Held
