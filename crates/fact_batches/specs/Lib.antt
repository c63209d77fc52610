pub mod Batch
pub mod Touched
