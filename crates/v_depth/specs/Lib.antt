pub mod Depth
pub mod Spare
pub mod After
pub mod Laws
