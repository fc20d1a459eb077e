pub mod Undone
pub mod Octas
pub mod Same
pub mod Kept
pub mod Results
pub mod Spaces
pub mod Steps
pub mod StepCounts
pub mod StepMarks
pub mod Choices
pub mod UsualSteps
mod Traced
mod Placed
mod KeptSteps
mod Walks
pub mod BareStarts
