-- How the code sees what it works on: no public contract cites any of it.
pub mod Whole
pub mod Patches
pub mod Distances
pub mod Entries
pub mod Lookups
pub mod WellPlaced
pub mod Pages
pub mod Ready
pub mod Marks
pub mod States
pub mod PlacedData
pub mod Leading
pub mod Lacks
pub mod Stops
pub mod Starts
pub mod Index
pub mod Stored
