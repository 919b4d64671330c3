pub mod Sizes
pub mod Few
pub mod Within
