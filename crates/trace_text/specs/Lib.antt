pub mod Trace
pub mod WorkedTraces
