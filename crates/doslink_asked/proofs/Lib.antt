pub mod Asking
pub mod LineTexts
pub mod Speaking
pub mod Splitting
pub mod Texts
