pub mod Laying
pub mod Texts
pub mod Inside
