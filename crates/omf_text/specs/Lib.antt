pub mod Printing
pub mod Listing
pub mod Details
pub mod Pieces
pub mod inside
