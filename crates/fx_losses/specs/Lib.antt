pub mod Eras
pub mod Losses
