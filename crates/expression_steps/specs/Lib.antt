pub mod Asking
pub mod Objects
