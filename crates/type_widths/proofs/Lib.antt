pub mod Totals
pub mod Classes
