pub mod Errors
pub mod Scopes
pub mod Gives
pub mod Copies
pub mod Lines
pub mod Promised
