pub mod Docstrings
pub mod Heads
pub mod Entries
pub mod Owners
pub mod ContractLines
