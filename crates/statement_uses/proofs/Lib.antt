pub mod Telling
pub mod Blocks
