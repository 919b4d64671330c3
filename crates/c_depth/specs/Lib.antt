pub mod Depth
pub mod Spare
pub mod Laws
