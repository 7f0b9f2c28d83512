pub mod Measures
pub mod Arities
pub mod Unions
pub mod Named
pub mod Listed
pub mod Spoken
pub mod Capped
pub mod WidthParts
