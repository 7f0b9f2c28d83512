pub mod PlacementLaws
pub mod PhaseLaws
pub mod NumberLaws
pub mod Rows
