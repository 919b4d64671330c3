pub mod Means
pub mod Fits
pub mod Standing
pub mod Examples
