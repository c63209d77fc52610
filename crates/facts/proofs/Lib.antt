pub mod AccountPlaces
pub mod InForce
pub mod NoteLemmas
pub mod PlacesLemmas
pub mod SerialLemmas
pub mod SubjectLemmas
pub mod TabLemmas
