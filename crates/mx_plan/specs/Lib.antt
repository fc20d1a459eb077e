pub mod Plan
pub mod Calls
pub mod Clauses
pub mod Held
pub mod Counts
pub mod Wild
pub mod Taking
