pub mod Diagnostics
pub mod Published
