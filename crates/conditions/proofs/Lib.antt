pub mod Moments
pub mod Setting
