pub mod Noted
pub mod Rules
pub mod Expressions
pub mod Targets
