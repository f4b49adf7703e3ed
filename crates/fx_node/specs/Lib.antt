pub mod Agreeing
pub mod Glancing
pub mod Asking
pub mod Standing
pub mod Stepping
pub mod Codes
