pub mod Deeds
pub mod Always
pub mod Streams
