pub mod Calls
pub mod Inner
pub mod Keywords
pub mod Measures
pub mod Plain
pub mod Steps
