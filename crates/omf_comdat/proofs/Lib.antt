pub mod Firsts
pub mod Once
pub mod Finding
