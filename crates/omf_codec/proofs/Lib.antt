pub mod Parts
pub mod Missing
pub mod Lists
pub mod Faults
pub mod Failing
