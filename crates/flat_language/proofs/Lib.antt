mod Numbers
pub mod Local
