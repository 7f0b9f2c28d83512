pub mod Places
pub mod Signs
pub mod Literals
pub mod TokenKinds
pub mod LogicalLines
pub mod Moving
