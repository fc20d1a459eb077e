pub mod Occurrences
pub mod Places
pub mod Fields
