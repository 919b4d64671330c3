pub mod Tagging
pub mod Walking
pub mod Turning
pub mod Reading
pub mod Fitting
mod Rows
