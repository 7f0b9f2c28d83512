pub mod Calls
pub mod Printing
pub mod Order
