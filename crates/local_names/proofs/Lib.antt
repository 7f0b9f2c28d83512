pub mod Adding
pub mod Measures
