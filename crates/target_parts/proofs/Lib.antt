pub mod Selecting
pub mod Rows
