pub mod Base
pub mod Begun
pub mod Play
