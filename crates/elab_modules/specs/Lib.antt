pub mod Modules
pub mod Tops
pub mod Below
