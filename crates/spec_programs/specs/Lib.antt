pub mod Program
pub mod Contracts
pub mod Definitions
pub mod Programs
pub mod Admitted
