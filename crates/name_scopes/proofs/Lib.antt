pub mod Entering
pub mod Repeating
pub mod Variables
pub mod Walking
