pub mod Values
pub mod Overrides
pub mod Shapes
pub mod Parameters
pub mod Signals
