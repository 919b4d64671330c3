pub mod Taking
pub mod Spots
