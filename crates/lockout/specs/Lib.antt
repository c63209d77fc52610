pub mod Policy
pub mod Standing
