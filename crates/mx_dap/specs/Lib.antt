pub mod Answered
pub mod Stops
pub mod Leads
