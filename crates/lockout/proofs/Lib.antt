pub mod Struck
pub mod History
