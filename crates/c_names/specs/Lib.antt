pub mod Scope
pub mod View
pub mod Paths
