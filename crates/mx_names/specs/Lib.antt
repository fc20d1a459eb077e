pub mod Numbers
pub mod Waiting
pub mod Names
pub mod Entries
pub mod Gregs
