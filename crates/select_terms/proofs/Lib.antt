pub mod Places
pub mod Bits
pub mod Steps
pub mod Reading
