-- The machine as a space of bytes, and the search through it.
pub mod Bytes
pub mod States
pub mod Whole
pub mod Searches
