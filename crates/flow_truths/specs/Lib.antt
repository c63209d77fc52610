pub mod Granted
pub mod Truth
pub mod Truths
