pub mod Faults
pub mod Chains
pub mod BlockViews
pub mod Blocks
pub mod Layouts
pub mod Once
