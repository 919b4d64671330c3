pub mod InOrder
pub mod CTokens
pub mod Stops
mod CRefused
mod VerilogRefused
