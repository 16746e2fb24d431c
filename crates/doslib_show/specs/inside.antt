-- How the code sees what it works on: no public contract cites any of it.
pub mod Parts
pub mod Meaning
pub mod Adding
