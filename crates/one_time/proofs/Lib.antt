pub mod Decimals
pub mod Regrouping
pub mod Spelling
pub mod ReadBack
