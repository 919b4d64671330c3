pub mod Nodes
pub mod Scan
pub mod Weaves
pub mod Pass
