pub mod Operators
pub mod Selects
pub mod Values
pub mod Measures
