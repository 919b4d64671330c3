pub mod Agreeing
pub mod Viewing
