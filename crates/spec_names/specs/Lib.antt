pub mod Lines
pub mod Names
pub mod Refusals
pub mod Members
pub mod Defined
pub mod Parameters
pub mod Headers
pub mod Definitions
