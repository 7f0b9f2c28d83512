pub mod Admitting
pub mod CommandWords
pub mod ExitRows
pub mod Laws
pub mod Texts
