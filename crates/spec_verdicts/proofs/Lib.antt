pub mod Meanings
pub mod OffOut
pub mod Rows
pub mod StatusRows
