pub mod Selecting
pub mod Adding
pub mod Nodes
