pub mod Expr
pub mod Classes
pub mod Program
pub mod Bounds
