pub mod Edge
pub mod Net
pub mod Clauses
