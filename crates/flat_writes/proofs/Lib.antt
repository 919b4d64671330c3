pub mod Writing
pub mod MaskLemmas
pub mod Parts
