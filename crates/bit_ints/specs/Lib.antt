pub mod Integers
pub mod Operations
pub mod Halving
pub mod Dividing
