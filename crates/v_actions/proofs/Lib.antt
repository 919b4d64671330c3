pub mod TopOfSort
pub mod Fitting
pub mod Builds
pub mod Laws
