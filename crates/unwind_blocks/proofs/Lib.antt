pub mod Orders
pub mod Branches
pub mod Cases
pub mod Falling
pub mod Turns
pub mod Strides
pub mod Calling
pub mod Uses
