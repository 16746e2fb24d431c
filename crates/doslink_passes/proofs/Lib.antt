pub mod Chaining
pub mod Declaring
pub mod Endless
pub mod Fates
pub mod Fronts
mod Held
pub mod Lists
pub mod LocalModules
pub mod MeantModules
pub mod OrderModules
pub mod Passing
pub mod Reading
pub mod Refused
pub mod StackSteps
pub mod Summing
pub mod Taking
