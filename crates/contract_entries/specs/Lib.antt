pub mod Letters
pub mod Given
pub mod Names
