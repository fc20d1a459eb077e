-- What each effect, step and change keeps of a machine over a window.
pub mod Machines
pub mod Applied
pub mod Stages
pub mod Rings
pub mod Shapes
pub mod Destinations
pub mod Insertions
pub mod Marks
pub mod Changed
pub mod Frames
