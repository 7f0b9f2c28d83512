pub mod Expressions
pub mod Names
pub mod Forms
