-- How the code sees what it works on: no public contract cites any of it.
pub mod Communals
pub mod Comdats
pub mod Lists
pub mod Repeated
pub mod Kinds
