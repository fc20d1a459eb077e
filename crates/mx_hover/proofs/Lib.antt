pub mod Fronts
pub mod Named
pub mod Texts
