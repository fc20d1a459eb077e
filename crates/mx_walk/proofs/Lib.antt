pub mod PlainLines
pub mod Turns
