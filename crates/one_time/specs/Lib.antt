pub mod Base32
pub mod Hotp
pub mod Verdicts
