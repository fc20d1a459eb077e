pub mod Entries
pub mod First
pub mod Groups
pub mod Known
pub mod Taken
pub mod Words
pub mod Nearest
