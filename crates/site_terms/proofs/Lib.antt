pub mod Linking
pub mod Fresh
