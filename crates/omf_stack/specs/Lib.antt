pub mod Stack
pub mod Records
pub mod Answer
pub mod Cut
pub mod CutModules
pub mod Whole
pub mod inside
