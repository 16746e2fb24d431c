pub mod Bodies
pub mod Putting
pub mod Clean
