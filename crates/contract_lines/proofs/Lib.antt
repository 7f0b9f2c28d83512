pub mod Growth
pub mod Later
pub mod Steps
pub mod Among
pub mod Spelling
pub mod Lines
pub mod Promises
pub mod Modules
