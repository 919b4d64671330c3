pub mod Noting
pub mod Equations
