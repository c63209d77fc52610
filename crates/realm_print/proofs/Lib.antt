pub mod FieldLemmas
pub mod FlowLemmas
pub mod ListLemmas
pub mod RealmLemmas
pub mod TableLemmas
pub mod WordLemmas
