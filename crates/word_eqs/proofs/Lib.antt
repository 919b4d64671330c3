pub mod Graphs
pub mod Counts
pub mod Evals
pub mod Evaluating
pub mod Importing
pub mod Overflow
pub mod Walks
pub mod Uses
pub mod Assigning
mod Rows
