pub mod Branches
pub mod Growth
pub mod Lessons
pub mod Naming
pub mod TrueLiterals
