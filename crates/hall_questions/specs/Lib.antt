pub mod Evidence
pub mod Questions
