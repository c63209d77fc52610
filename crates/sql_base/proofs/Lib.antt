pub mod CreateLemmas
pub mod ListingLemmas
pub mod PermuteLemmas
pub mod QueryLemmas
pub mod RefusalLemmas
pub mod StateLemmas
pub mod TellLemmas
