pub mod Indexes
pub mod Parts
