mod Playing
pub mod Winning
pub mod Counts
