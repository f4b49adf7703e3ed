pub mod Entries
pub mod Maps
pub mod Rising
pub mod Bits
pub mod Bounded
