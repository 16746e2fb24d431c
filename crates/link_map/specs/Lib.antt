pub mod Ordered
pub mod Public
pub mod Publics
pub mod Numbers
pub mod Detailed
pub mod Map
pub mod inside
