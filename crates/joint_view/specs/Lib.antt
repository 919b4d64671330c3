pub mod Halts
pub mod Conditions
pub mod Moves
