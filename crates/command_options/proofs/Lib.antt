mod Tokens
mod Numerals
pub mod Entries
mod Worked
