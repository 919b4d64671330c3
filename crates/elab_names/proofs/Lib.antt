pub mod Entries
pub mod Searches
pub mod Turns
pub mod Measuring
pub mod Cases
pub mod Expressions
pub mod Parts
