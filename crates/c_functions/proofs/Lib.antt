pub mod Types
pub mod Going
pub mod Params
pub mod Declaring
pub mod Depths
