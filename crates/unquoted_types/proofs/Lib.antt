pub mod Measures
pub mod Turns
pub mod Texts
pub mod Bounds
