pub mod Groups
pub mod Stands
pub mod Ledger
pub mod Effects
pub mod Calls
pub mod Creations
pub mod Rules
pub mod Legal
