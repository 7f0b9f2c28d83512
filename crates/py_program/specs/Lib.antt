pub mod Entries
pub mod Programs
pub mod Named
pub mod Inside
