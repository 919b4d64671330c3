pub mod Answers
pub mod Elements
pub mod Evaluable
