pub mod Patterns
pub mod Statements
