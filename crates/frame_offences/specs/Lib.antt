pub mod Drivers
