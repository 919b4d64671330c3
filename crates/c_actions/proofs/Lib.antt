pub mod TopOfSort
pub mod Fitting
pub mod EachFits
pub mod Builds
pub mod Laws
