pub mod Heads
pub mod Growth
pub mod Given
