pub mod Logout
pub mod NewTab
