pub mod Bodies
pub mod Lists
pub mod Ranges
pub mod Words
