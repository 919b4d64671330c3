pub mod Guards
pub mod Images
pub mod Unwinding
pub mod Writing
