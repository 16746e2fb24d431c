pub mod Language
pub mod Faults
pub mod inside
