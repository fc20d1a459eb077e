pub mod Numbers
pub mod Messages
pub mod Commands
pub mod Requests
pub mod Needs
pub mod Early
