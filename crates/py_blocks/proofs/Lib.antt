pub mod Growth
pub mod Later
pub mod Lines
pub mod Turns
