pub use Rattle.mx_word.specs.Results
pub mod Arguments
pub mod Begun
pub mod BeginPlans
pub mod Ends
