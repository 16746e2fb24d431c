pub mod Lines
pub mod Sorted
pub mod inside
