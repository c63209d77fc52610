pub mod FoundLemmas
pub mod Pushes
pub mod SerialLemmas
pub mod StartLemmas
