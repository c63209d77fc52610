pub mod Apart
pub mod RealmLemmas
pub mod RealmRules
