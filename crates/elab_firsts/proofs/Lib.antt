pub mod Equations
pub mod Latest
