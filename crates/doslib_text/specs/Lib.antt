pub mod Parts
pub mod Faults
pub mod Listing
pub mod inside
