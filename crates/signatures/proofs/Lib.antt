pub mod Mapping
pub mod Parameters
pub mod Given
pub mod Listed
pub mod Numbers
