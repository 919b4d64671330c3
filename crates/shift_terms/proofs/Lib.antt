pub mod Lossless
pub mod Shifted
