pub mod Account
pub mod Asked
pub mod Evidence
pub mod Login
pub mod PasswordFor
pub mod Progress
