pub mod Growth
pub mod Later
pub mod Turns
