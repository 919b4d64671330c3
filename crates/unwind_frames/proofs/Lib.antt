pub mod Copied
pub mod Slices
pub mod Refreshing
pub mod Moving
pub mod Firstly
