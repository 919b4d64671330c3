pub mod Bits
pub mod Entering
pub mod Flows
pub mod Placing
