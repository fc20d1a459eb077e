pub mod Loads
pub mod Labels
pub mod Books
pub mod Things
pub mod Lookups
