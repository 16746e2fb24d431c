-- How the code sees what it works on: no public contract cites any of it.
pub mod Faults
pub mod Follows
pub mod Ordered
pub mod Parts
pub mod Tokens
