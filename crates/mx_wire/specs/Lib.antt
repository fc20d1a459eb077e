pub mod Ranges
pub mod Replies
