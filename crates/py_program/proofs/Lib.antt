pub mod There
pub mod Named
pub mod Listed
pub mod Among
