pub mod Fits
pub mod Works
pub mod Results
