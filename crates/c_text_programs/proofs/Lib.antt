pub mod Typing
pub mod Programs
