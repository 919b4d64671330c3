pub mod Numbers
pub mod Names
pub mod Whole
pub mod Limits
pub mod Pieces
pub mod Options
