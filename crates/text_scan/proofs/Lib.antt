pub mod PieceLemmas
pub mod ScanSteps
pub mod Longest
pub mod FrontLemmas
