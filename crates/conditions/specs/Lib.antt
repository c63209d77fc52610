pub mod Secrets
pub mod Setup
pub mod Setups
pub mod Truth
