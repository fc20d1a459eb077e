pub mod Answering
pub mod Told
