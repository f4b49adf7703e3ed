pub mod Store
pub mod Packed
pub mod Packable
pub mod Redundancy
pub mod Mirror
pub mod Rows
