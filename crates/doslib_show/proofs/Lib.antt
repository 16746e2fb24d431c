pub mod Chains
pub mod Listing
pub mod Reading
pub mod Sixteen
