pub use Rattle.mx_word.specs.Results
pub mod Dump
pub mod Shown
