pub mod PieceLemmas
pub mod SinkLemmas
