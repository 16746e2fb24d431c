pub mod Names
pub mod Lines
pub mod Said
pub mod inside
