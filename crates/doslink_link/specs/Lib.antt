pub mod Forms
pub mod Linking
pub mod Reading
pub mod inside
