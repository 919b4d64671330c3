pub mod Clause
pub mod Arena
pub mod Spans
