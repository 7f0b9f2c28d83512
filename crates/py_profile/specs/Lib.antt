pub mod Checking
pub mod Owning
