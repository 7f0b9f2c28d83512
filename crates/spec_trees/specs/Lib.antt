pub mod Expr
pub mod Stmt
pub mod Module
