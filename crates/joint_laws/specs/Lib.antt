pub mod Choices
pub mod Words
pub mod Modules
pub mod Counting
pub mod Pairs
pub mod Rows
pub mod Fitting
