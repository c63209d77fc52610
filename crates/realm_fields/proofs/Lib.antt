pub mod ItemLemmas
pub mod LevelLemmas
pub mod RangeLemmas
