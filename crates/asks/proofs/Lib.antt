pub mod PasswordLemmas
pub mod RangeLemmas
