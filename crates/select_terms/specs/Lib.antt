pub mod Words
pub mod Shifted
