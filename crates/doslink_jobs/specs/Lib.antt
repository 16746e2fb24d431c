pub mod Jobs
pub mod Maps
pub mod Places
pub mod Refusals
pub mod Runs
pub mod Written
pub mod Wrong
pub mod inside
