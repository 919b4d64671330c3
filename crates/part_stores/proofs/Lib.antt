pub mod Spreading
pub mod Storing
