pub mod Arenas
mod Behind
pub mod Folding
pub mod Pairs
pub mod Places
