pub mod Fronts
pub mod JoinedTetra
pub mod Ranges
pub mod Tetras
pub mod Comparisons
