pub mod Columns
pub mod Names
pub mod Order
pub mod Printable
pub mod Reports
