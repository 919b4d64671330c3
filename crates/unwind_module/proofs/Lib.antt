pub mod Terms
pub mod Draws
pub mod Choices
pub mod Starts
