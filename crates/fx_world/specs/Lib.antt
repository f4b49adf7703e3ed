pub mod Texts
pub mod Counting
pub mod Standings
pub mod Goes
pub mod Sends
pub mod Codes
