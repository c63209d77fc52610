pub mod Begun
pub mod Due
pub mod Found
pub mod Growth
pub mod HallState
pub mod Legal
pub mod Start
