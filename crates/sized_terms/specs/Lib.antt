pub mod Sized
