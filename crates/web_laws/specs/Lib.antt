pub mod Blank
pub mod Cookies
pub mod Filled
pub mod Fronts
pub mod Names
pub mod Plain
pub mod Told
