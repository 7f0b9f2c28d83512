pub mod Arena
pub mod BoundsOf
pub mod Functions
