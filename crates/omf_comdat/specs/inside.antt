-- How the code sees what it works on: no public contract cites any of it.
pub mod Held
pub mod Found
