pub mod State
pub mod Values
pub mod Walk
pub mod Along
pub mod Callbacks
pub mod Plan
pub mod InStep
pub mod Lengths
