pub mod Closures
pub mod Cuts
pub mod Falling
pub mod Lists
pub mod Literals
pub mod Looks
pub mod Models
pub mod Places
