pub mod Maps
pub mod Looks
pub mod Beside
