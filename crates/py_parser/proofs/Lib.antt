pub mod Fronts
pub mod Steps
pub mod LineTurns
pub mod Modules
