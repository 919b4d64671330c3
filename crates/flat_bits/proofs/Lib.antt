pub mod Spans
pub mod Indexes
pub mod Naming
