pub mod Operators
pub mod Worked
