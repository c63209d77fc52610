pub mod CodeLemmas
pub mod SerialLemmas
