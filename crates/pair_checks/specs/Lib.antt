pub mod Bound
pub mod Parts
