pub mod Names
pub mod Growing
pub mod Nodes
pub mod TypeNodes
pub mod Arenas
pub mod StmtNodes
pub mod Statements
