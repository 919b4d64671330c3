pub mod Nests
pub mod Checks
pub mod Idle
