pub mod Parts
pub mod Accepting
pub mod Placing
pub mod Taken
pub mod Source
pub mod Written
