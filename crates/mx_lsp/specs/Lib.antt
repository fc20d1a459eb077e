pub mod Documents
pub mod Edits
pub mod Lines
pub mod Messages
pub mod Once
pub mod Requests
pub mod Sessions
