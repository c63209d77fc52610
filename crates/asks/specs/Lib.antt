pub mod Passwords
pub mod Ranges
pub mod Solved
