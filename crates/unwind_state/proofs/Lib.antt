pub mod Stretches
pub mod Pieces
pub mod Gates
pub mod Pushing
pub mod Puts
pub mod Sequences
pub mod Places
pub mod Firsts
