pub mod Numerals
pub mod Commands
