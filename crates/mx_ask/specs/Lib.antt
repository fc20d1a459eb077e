pub mod Lines
pub mod Words
pub mod Places
pub mod Units
