pub mod Files
pub mod Paths
pub mod Standing
pub mod Written
pub mod inside
