pub mod Faults
pub mod Lists
pub mod EndParts
pub mod Layouts
pub mod Once
