pub mod Bytes
pub mod Faults
pub mod Tree
pub mod Value
pub mod Frames
pub mod Reading
pub mod Machine
pub mod Spelling
