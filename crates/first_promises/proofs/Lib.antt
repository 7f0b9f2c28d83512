pub mod Fitting
pub mod Named
pub mod Listed
pub mod Gathered
