pub mod Drawn
pub mod Rows
pub mod Taken
pub mod Links
pub mod Showing
