pub mod Kinds
pub mod Status
pub mod Names
pub mod Messages
