pub mod Lists
pub mod Lengths
pub mod Bodies
pub mod Classes
pub mod Promised
pub mod Shortening
pub mod Whole
pub mod EachModule
