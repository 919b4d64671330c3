pub mod Inits
pub mod Simples
pub mod Names
pub mod Declaring
pub mod Blocks
pub mod Labels
pub mod Parts
pub mod Statements
