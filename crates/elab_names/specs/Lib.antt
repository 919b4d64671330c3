pub mod Constants
pub mod Operators
pub mod Names
pub mod View
pub mod Selects
pub mod Measured
