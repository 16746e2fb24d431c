-- How the code sees what it works on: no public contract cites any of it.
pub mod CutStacks
pub mod Declaring
pub mod Defined
pub mod Faulty
pub mod Listed
pub mod Narrowed
pub mod Passing
pub mod Plains
pub mod WideSegments
