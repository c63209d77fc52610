pub mod LinePlaces
pub mod Lines
pub mod Steps
