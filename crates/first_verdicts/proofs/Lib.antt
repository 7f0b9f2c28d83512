pub mod Evaluation
pub mod Joinings
pub mod Judgements
pub mod Lookups
