pub mod About
pub mod Carrying
pub mod Count
pub mod Standings
pub mod States
