pub mod Verilog
pub mod Sorts
pub mod Symbols
pub mod Productions
