pub mod NameTurns
pub mod InPlace
pub mod Ascending
pub mod OfTrees
