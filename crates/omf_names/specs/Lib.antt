pub mod Records
pub mod Views
