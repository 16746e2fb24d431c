pub mod Finding
pub mod Libraries
pub mod Running
pub mod Searching
