pub mod PlaceLemmas
pub mod SerialLemmas
