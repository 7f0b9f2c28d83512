pub mod Walking
pub mod Needing
