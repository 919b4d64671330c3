pub mod Grammar
pub mod Tables
pub mod Productions
pub mod Conditions
pub mod Test
pub mod Machine
pub mod Places
pub mod Examples
