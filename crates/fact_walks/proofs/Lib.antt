pub mod Backwards
pub mod OfAccounts
pub mod Unread
