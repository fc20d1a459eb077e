-- The code's way: in which order and by which steps of its own it does what the definitions say.
pub mod Calls
pub mod Parts
pub mod Stepping
pub mod Search
pub mod KeptPage
pub mod Changed
pub mod UsualDeeds
pub mod NoteParts
pub mod Noting
