pub mod Learning
pub mod Models
pub mod Search
pub mod Variables
