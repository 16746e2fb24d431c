pub mod Comdats
pub mod Fates
pub mod Told
pub mod inside
