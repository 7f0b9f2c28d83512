pub mod Dues
pub mod Propagation
pub mod Refutations
pub mod Rounds
pub mod Told
pub mod Truth
