pub mod Steps
pub mod Sorts
pub mod After
pub mod Examples
