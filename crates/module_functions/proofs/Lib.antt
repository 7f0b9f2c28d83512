pub mod Found
pub mod Receivers
