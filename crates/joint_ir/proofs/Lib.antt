pub mod PlainLimits
mod Rows
pub mod Sizes
pub mod StmtWeights
pub mod Weights
