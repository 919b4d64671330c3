pub mod Fitting
pub mod Draws
pub mod Values
pub mod Rows
pub mod Calls
