pub mod HostModel
pub mod HostAnswer
pub mod Keeping
pub use Rattle.mx_word.specs.Lists
pub use Rattle.mx_word.specs.Results
