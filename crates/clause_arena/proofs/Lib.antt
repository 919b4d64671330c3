pub mod Sets
pub mod Each
pub mod Once
pub mod Count
pub mod SpanParts
