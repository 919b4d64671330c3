pub mod Externals
pub mod Files
pub mod Ends
