pub mod Pictures
pub mod Records
pub mod Counts
pub mod Following
pub mod Recording
