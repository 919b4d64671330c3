pub mod Ports
pub mod Keeping
pub mod Making
