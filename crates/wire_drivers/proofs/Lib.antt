pub mod Drivers
pub mod Masks
