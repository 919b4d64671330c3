pub mod Arguments
pub mod Elements
pub mod Flow
pub mod Moves
pub mod Values
