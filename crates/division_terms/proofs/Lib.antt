pub mod Quotients
pub mod Divided
