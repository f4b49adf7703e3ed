pub mod Chains
pub mod Fewer
pub mod Firsts
pub mod Lists
pub mod Places
pub mod Repairs
pub mod Steps
