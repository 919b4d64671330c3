pub mod Targets
pub mod Drivers
