pub mod Committed
pub mod Kept
pub mod Made
pub mod Unread
