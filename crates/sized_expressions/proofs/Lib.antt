pub mod Counts
pub mod Forms
pub mod Operating
pub mod Parts
pub mod Starting
pub mod Walking
