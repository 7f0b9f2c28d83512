pub mod Kinds
pub mod Widths
