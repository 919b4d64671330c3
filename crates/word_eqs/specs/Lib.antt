pub mod Graph
pub mod Meaning
pub mod Gates
pub mod Guarded
pub mod Assignments
pub mod Import
