pub mod Levels
pub mod Paths
pub mod Reading
pub mod Settings
pub mod Users
pub mod Words
