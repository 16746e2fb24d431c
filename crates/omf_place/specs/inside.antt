-- How the code sees what it works on: no public contract cites any of it.
pub mod Ranks
pub mod Placing
pub mod Steps
pub mod Numbered
pub mod Sites
pub mod Keys
pub mod Greatest
pub mod Walk
pub mod Named
pub mod HeldNames
pub mod Spans
pub mod Small
pub mod Stands
pub mod Program
pub mod OfProgram
pub mod Groups
pub mod Rows
