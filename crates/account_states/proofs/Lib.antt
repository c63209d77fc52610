pub mod CountLemmas
pub mod StateLemmas
