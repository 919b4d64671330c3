pub mod Steps
pub mod Combining
pub mod Standing
