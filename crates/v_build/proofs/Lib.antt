pub mod Spots
pub mod Taking
