pub mod Groups
pub mod Bodies
pub mod Formed
