pub mod Judging
pub mod Breaking
pub mod Verdicts
pub mod Lines
pub mod Settings
pub mod Report
pub mod Firsts
pub mod Statuses
