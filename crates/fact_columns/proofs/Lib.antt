pub mod BodyLemmas
pub mod ItemLemmas
pub mod ListLemmas
pub mod NameLemmas
pub mod ReadBack
