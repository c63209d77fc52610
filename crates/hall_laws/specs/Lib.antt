pub mod AskedEvidence
pub mod Closing
pub mod CompletedOnce
pub mod Levels
pub mod Ready
pub mod Repeats
pub mod SpentOnce
pub mod TabHistory
