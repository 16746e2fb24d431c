-- How the code sees what it works on: no public contract cites any of it.
pub mod Faults
pub mod Reading
pub mod Inputs
pub mod Linking
