pub mod Bodies
pub mod Cookies
pub mod Fields
pub mod Front
pub mod Heads
pub mod Reading
pub mod Routes
pub mod Texts
