pub mod Marking
pub mod Staging
pub mod Edges
pub mod Spreading
pub mod Rising
pub mod Counting
