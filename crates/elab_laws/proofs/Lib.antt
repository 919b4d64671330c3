pub mod Agrees
pub mod Small
