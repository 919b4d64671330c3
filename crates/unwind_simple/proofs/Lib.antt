pub mod Obtaining
pub mod Returning
pub mod Statements
pub mod Storing
pub mod Types
