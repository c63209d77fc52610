pub mod Codes
pub mod Deeds
pub mod Forms
pub mod Post
