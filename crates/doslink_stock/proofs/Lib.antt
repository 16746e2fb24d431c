pub mod Walks
pub mod Places
pub mod Rounds
pub mod Stocking
