pub mod Noting
pub mod Cases
