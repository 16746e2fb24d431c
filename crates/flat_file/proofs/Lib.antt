pub mod Slicing
pub mod Moving
pub mod Covering
pub mod Choosing
pub mod Locating
pub mod Fitting
pub mod Refusing
