-- How the code sees what it works on: no public contract cites any of it.
pub mod Likeness
pub mod Met
pub mod Asking
pub mod Back
