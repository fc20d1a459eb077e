pub mod Parts
pub mod Turns
pub mod Framed
pub mod Spelled
pub mod Units
