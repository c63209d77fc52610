pub mod Applied
pub mod Keys
