pub mod Pairs
pub mod Paths
pub mod Stored
pub mod Binding
pub mod Ends
pub mod Stores
