pub mod Agreeing
pub mod Listing
pub mod Linking
pub mod Following
pub mod Spanning
