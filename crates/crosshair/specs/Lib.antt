pub mod Answers
pub mod Ends
pub mod Refusals
pub mod SettingsOf
pub mod Texts
