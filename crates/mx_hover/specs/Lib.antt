pub mod Completions
pub mod Hovers
pub mod Loads
pub mod Meanings
pub mod Signatures
pub mod Statements
