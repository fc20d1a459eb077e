pub mod Characters
pub mod Rows
