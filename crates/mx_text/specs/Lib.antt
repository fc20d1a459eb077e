pub mod Numbers
pub mod Instructions
pub mod Reading
