pub mod LevelLemmas
pub mod NamedLemmas
pub mod OutlivedLemmas
pub mod RoomLemmas
pub mod RootLemmas
pub mod SetLemmas
pub mod UniqueLemmas
