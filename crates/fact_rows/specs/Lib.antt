pub mod About
pub mod Due
pub mod Found
pub mod Rows
pub mod StandFor
pub mod Stored
