pub mod Answers
pub mod HasSerials
pub mod Ids
pub mod Passwords
pub mod Refusals
pub mod Setting
