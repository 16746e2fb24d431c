pub mod Lists
pub mod Offers
pub mod Telling
