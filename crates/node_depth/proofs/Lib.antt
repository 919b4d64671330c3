pub mod ScanSteps
pub mod PassSteps
pub mod Also
pub mod PassNodes
pub mod Claims
