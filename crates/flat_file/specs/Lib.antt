pub mod Labels
pub mod Covered
pub mod Forms
pub mod Writing
pub mod Com
pub mod Laws
