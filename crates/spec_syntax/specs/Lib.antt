pub mod TokenWords
pub mod Lines
pub mod Placement
pub mod Phases
pub mod Texts
