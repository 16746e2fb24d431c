-- How the code sees what it works on: no public contract cites any of it.
pub mod Matching
pub mod Program
pub mod Running
pub mod Libraries
pub mod Comparing
