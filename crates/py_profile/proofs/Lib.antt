pub mod Below
pub mod Telling
pub mod Defaults
pub mod Listed
pub mod Walking
pub mod Owned
pub mod Refusing
