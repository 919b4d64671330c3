pub mod Effects
pub mod Texts
pub mod Simple
pub mod Statements
pub mod Calls
