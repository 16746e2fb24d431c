pub mod Reading
pub mod Program
pub mod Matching
pub mod Comparing
pub mod Libraries
pub mod LibraryLines
pub mod Jobs
pub mod inside
