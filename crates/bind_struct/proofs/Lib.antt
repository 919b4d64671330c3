pub mod Naming
pub mod Storing
pub mod Linking
