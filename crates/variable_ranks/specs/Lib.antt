pub mod Games
pub mod Best
