pub mod Tables
pub mod Opcodes
pub mod Shapes
pub mod Predefined
