pub mod Faults
pub mod Schema
pub mod Spares
pub mod Steps
pub mod Told
pub mod Ready
