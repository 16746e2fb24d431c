pub mod Beginning
pub mod Bounds
pub mod Answers
pub mod Limiting
pub mod Forming
