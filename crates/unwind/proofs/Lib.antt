pub mod Parts
pub mod Starts
pub mod Mains
