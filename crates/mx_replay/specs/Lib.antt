pub mod Programs
pub mod Visits
pub mod Marks
pub mod Searches
pub mod Frames
pub mod Keeping
