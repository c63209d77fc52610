pub mod Misfits
pub mod Order
pub mod Repeats
pub mod Rows
