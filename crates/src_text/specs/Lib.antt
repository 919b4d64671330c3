pub mod Kind
pub mod Place
pub mod Digits
pub mod Trees
