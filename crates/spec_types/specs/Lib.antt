pub mod Classes
pub mod Names
pub mod Quotes
pub mod Types
pub mod Signatures
pub mod Reached
pub mod Needs
pub mod Widths
