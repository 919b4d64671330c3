pub mod Blocks
pub mod Loops
pub mod Switches
pub mod Results
