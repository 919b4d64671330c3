pub mod Heads
pub mod Tables
pub mod Declarations
pub mod Definitions
pub mod Steps
