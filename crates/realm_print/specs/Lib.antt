pub mod Documents
pub mod Fields
pub mod Flows
pub mod Levels
pub mod Printed
