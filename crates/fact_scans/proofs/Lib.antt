pub mod Counting
pub mod EvidenceLemmas
pub mod PendingLemmas
pub mod SpentLemmas
pub mod TokenLemmas
