pub mod Kinds
pub mod Rules
pub mod Directives
pub mod Reading
