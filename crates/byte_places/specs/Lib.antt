pub mod Chains
pub mod Places
pub mod Gaps
pub mod inside
