pub mod Images
pub mod Start
pub mod Started
pub mod Pool
pub mod MemoryAtStart
