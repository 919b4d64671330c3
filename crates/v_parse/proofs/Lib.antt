pub mod Judging
pub mod Spans
