pub mod Constants
pub mod Holding
