pub mod Keeping
pub mod Places
pub mod Rows
pub mod Shapes
