pub mod Fits
pub mod Loads
pub mod Read
pub mod Tables
pub mod Values
