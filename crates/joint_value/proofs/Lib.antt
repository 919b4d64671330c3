pub mod Elements
pub mod Nodes
pub mod Numbers
pub mod Ranges
pub mod Shifts
pub mod Stores
