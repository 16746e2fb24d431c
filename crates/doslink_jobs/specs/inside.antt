-- How the code sees what it works on: no public contract cites any of it.
pub mod Absent
pub mod Gathering
pub mod Links
pub mod Stops
pub mod Suspects
pub mod Warnings
