pub mod NetLemmas
pub mod Growth
pub mod Determined
pub mod Tseitin
