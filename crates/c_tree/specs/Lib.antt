pub mod Starts
pub mod Nodes
