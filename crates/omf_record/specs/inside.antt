-- How the code sees what it works on: no public contract cites any of it.
pub mod Fields
pub mod Shapes
pub mod References
pub mod Subrecords
pub mod Segments
pub mod Ends
pub mod Blocks
pub mod Kinds
pub mod Expansion
pub mod Searching
