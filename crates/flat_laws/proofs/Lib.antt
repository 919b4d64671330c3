pub mod Same
pub mod Steady
