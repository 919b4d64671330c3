pub mod Stores
pub mod Elements
pub mod Arrays
