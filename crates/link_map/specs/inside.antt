-- How the code sees what it works on: no public contract cites any of it.
pub mod Listed
pub mod Texts
pub mod Numbers
pub mod Details
