pub mod Shown
pub mod TetraTurns
