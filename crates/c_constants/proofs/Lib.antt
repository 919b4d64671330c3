pub mod Holding
pub mod Evaluating
pub mod Firsts
pub mod Telling
