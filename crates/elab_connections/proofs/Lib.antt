pub mod Equations
pub mod Joining
