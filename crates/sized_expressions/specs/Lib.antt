pub mod Operated
pub mod Rows
pub mod Sized
