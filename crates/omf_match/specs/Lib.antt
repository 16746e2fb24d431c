pub mod Byte
pub mod Items
pub mod Places
pub mod Pattern
pub mod Matching
pub mod Told
