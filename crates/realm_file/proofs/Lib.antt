pub mod DocumentLemmas
pub mod DoubledLemmas
pub mod ExecLemmas
pub mod RuleLemmas
