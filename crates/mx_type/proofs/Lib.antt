pub mod Words
pub mod Lambdas
pub mod Listed
pub mod Rows
pub mod Readings
pub mod TrieBytes
pub mod Once
