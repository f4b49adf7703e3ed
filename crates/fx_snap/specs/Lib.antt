pub mod Stores
pub mod Overlays
