pub mod Table
pub mod Actions
pub mod Symbols
pub mod Productions
