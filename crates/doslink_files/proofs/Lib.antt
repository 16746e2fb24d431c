pub mod LeftOut
pub mod Looking
pub mod Parting
pub mod Parts
