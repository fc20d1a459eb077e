pub mod Reaching
pub mod Deleting
