pub mod CallLemmas
pub mod TableLemmas
