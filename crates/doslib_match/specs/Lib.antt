pub mod Labels
pub mod Reading
pub mod Matching
pub mod inside
