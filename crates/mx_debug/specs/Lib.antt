pub mod Sessions
pub mod Going
pub mod Words
