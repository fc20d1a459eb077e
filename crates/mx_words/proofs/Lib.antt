pub mod Places
pub mod Chosen
pub mod AfterOptions
pub mod ReadOptions
pub mod Parsed
pub mod Complete
pub mod Sound
pub mod OrderedBlocks
