mod Fronts
mod Covered
pub mod Entries
mod Words
mod CallRows
mod GroupRows
mod DataRows
mod EpochRows
mod LossRows
