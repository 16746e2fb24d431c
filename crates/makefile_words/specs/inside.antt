-- How the code sees what it works on: no public contract cites any of it.
pub mod Definitions
pub mod Follows
pub mod Lines
pub mod Parts
pub mod Tokens
