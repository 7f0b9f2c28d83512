pub mod Meanings
pub mod Expressions
pub mod Statements
pub mod Functions
pub mod ContractScopes
pub mod ModuleUses
