pub mod Sums
pub mod Named
pub mod Moments
pub mod Conditions
pub mod Orders
