pub mod Graph
pub mod Marks
pub mod Stages
pub mod Orders
