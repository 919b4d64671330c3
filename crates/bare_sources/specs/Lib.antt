pub mod Bare
pub mod Taken
pub mod Joined
