pub mod Places
pub mod Choices
pub mod Additions
pub mod Sentences
