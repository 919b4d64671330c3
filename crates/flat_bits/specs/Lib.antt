pub mod Index
pub mod Selections
