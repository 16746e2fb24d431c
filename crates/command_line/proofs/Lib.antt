pub mod Lists
pub mod Steps
pub mod Values
pub mod Parses
pub mod Required
pub mod Taken
