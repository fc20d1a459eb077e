pub mod Uses
pub mod Outline
