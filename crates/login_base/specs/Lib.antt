pub mod IdText
pub mod InMemory
pub mod Names
pub mod Outside
pub mod Steps
