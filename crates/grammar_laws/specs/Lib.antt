pub mod Refused
pub mod CRefusals
pub mod VerilogRefusals
