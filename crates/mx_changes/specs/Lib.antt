pub mod Changes
pub mod Images
pub mod Layouts
pub mod Names
