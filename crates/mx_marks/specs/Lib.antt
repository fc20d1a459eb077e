pub mod Fields
pub mod Mending
pub mod Under
pub mod Labels
pub mod Tokens
pub mod Syntax
pub mod Marks
