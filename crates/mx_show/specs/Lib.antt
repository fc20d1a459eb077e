pub mod Subjects
pub mod Texts
