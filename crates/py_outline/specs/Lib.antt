pub mod Lists
pub mod Reach
pub mod Outlines
pub mod Orders
pub mod Surroundings
pub mod Told
