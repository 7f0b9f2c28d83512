pub mod Visiting
pub mod Rounds
