pub mod Spelling
pub mod Defining
