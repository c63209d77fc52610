pub mod Held
pub mod InMemory
pub mod Keeping
