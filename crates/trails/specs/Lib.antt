pub mod Trails
pub mod Following
pub mod Covering
