pub mod Obtaining
pub mod Simple
