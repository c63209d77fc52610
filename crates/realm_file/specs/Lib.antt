pub mod Execs
pub mod FaultWords
pub mod RealmFile
pub mod Rules
