pub mod Padding
pub mod PasswordHash
pub mod Realm
pub mod RealmBuiltin
pub mod Secrets
