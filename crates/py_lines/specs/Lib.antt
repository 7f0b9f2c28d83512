pub mod Headers
pub mod Given
