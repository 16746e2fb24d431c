pub mod Labels
pub mod Header
pub mod File
pub mod Reading
pub mod Loading
pub mod Laws
pub mod inside
