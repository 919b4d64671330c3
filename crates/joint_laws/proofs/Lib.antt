pub mod Lists
mod Leaves
mod Statements
mod Choices
pub mod Counting
pub mod Modules
pub mod Parts
pub mod Programs
mod Fitting
mod WorkedRuns
