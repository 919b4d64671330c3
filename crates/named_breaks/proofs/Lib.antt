mod Parts
mod Statements
pub mod Runs
