mod AccountLemmas
mod AccountTexts
mod AgreeLemmas
pub mod MarkLemmas
mod MarkTexts
mod NumberLemmas
pub mod RealmLemmas
mod RealmTexts
mod SecretLemmas
mod SecretTexts
pub mod TableLemmas
mod WriteLemmas
