pub mod Absent
pub mod Doing
pub mod FaultyModules
pub mod Linked
pub mod Placing
pub mod Refused
pub mod Rounds
pub mod Stems
mod Warning
