pub mod Numbers
pub mod Flat
