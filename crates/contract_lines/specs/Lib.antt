pub mod Errors
pub mod Given
