pub mod Stretches
pub mod Arrays
pub mod Nodes
