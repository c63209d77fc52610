pub mod Rising
pub mod Loads
pub mod NumberLoads
pub mod Rowids
pub mod RealmLoads
pub mod MarkLoads
pub mod Causes
pub mod Chains
