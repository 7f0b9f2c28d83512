pub mod Comparing
pub mod Evaluates
pub mod Joining
pub mod Judges
pub mod Meaning
