pub mod Libraries
pub mod Matching
pub mod Comparing
pub mod Program
pub mod Words
pub mod inside
