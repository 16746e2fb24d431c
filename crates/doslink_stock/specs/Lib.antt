pub mod Files
pub mod Search
pub mod Seen
pub mod Placed
pub mod Searched
pub mod inside
