pub mod Placed
pub mod Extents
pub mod Given
