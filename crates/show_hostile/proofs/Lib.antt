pub mod Checking
pub mod Fitting
pub mod Idling
