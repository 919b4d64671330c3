pub mod Properties
pub mod Keys
