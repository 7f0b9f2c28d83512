pub mod Repeating
pub mod Showing
pub mod Walking
