pub mod Every
pub mod Whole
pub mod Kept
pub mod Facts
pub mod Silent
pub mod Streaming
