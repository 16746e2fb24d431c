-- How the code sees what it works on: no public contract cites any of it.
pub mod Entries
pub mod Said
pub mod Checking
pub mod Behind
pub mod Running
pub mod Store
pub mod Contents
pub mod Building
pub mod Reading
pub mod ModuleFaults
pub mod Grouping
pub mod Room
