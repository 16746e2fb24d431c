-- How the code sees what it works on: no public contract cites any of it.
pub mod Publics
pub mod Communals
pub mod References
pub mod Subrecords
pub mod Segments
pub mod Kinds
