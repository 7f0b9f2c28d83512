pub mod Steps
pub mod Scanned
pub mod Given
