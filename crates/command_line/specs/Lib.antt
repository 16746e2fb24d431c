pub mod Rules
pub mod Values
pub mod Refusals
