pub mod Wires
pub mod Undriven
