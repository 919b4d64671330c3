mod Calls
mod Falls
mod Flows
mod Inits
mod Loops
mod Runs
mod Standing
mod Strides
mod Turns
pub mod Restored
