pub mod Indices
pub mod Overlays
pub mod Uncovered
pub mod Buddies
pub mod Mirrors
pub mod Numbers
pub mod Orders
pub mod Texts
pub mod Meanings
pub mod Spellings
pub mod Sounds
pub mod Strengths
pub mod Packables
mod StoreRows
