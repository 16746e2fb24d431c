pub mod InOrder
pub mod Orders
pub mod Stable
pub mod Lines
pub mod Puts
mod Texts
mod BySegment
mod Grouped
