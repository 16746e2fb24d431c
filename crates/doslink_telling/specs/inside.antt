-- How the code sees what it works on: no public contract cites any of it.
pub mod Duplicates
pub mod Wanters
pub mod Tables
