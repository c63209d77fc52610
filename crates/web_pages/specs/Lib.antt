pub mod Forms
pub mod Heads
pub mod Pages
pub mod Statuses
