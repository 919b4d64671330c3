pub mod Rows
pub mod Arguments
pub mod Calls
pub mod Bodies
