pub mod Pieces
pub mod Tokens
pub mod Words
pub mod Fronts
pub mod Sample
