pub mod Failures
pub mod Settling
pub mod Sources
