mod Sets
pub mod Composition
