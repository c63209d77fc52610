pub mod About
pub mod Carrying
pub mod Count
pub mod Outlived
pub mod Roots
