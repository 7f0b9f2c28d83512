pub mod Giving
pub mod Checked
