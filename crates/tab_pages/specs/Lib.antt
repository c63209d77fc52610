pub mod Offering
pub mod Pages
pub mod Visit
