pub mod Lists
pub mod Kept
pub mod Grouping
pub mod Values
pub mod Checked
pub mod Listing
