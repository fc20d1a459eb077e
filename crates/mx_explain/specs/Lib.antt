pub mod Topics
pub mod Matching
pub mod Operands
pub mod Facts
pub mod Texts
pub mod Parts
