pub mod Tables
pub mod Tetras
