mod Acts
pub mod Agreeing
pub mod Glancing
mod Begun
pub mod Calling
pub mod Deciding
pub mod Electing
mod First
mod Heard
pub mod Joining
pub mod Learning
mod Rows
pub mod Taking
pub mod Telling
pub mod Testing
pub mod Turning
pub mod Totals
pub mod Turned
