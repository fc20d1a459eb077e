-- What the code's instructions come to, one kind after another.
pub mod Outcomes
pub mod Others
pub mod Events
pub mod Loads
pub mod Stores
pub mod Swaps
pub mod Gets
pub mod Puts
pub mod Resumes
pub mod Plain
pub mod Pages
pub mod Answered
pub mod Sights
pub mod Foretold
pub mod Unchanged
pub mod Locals
pub mod Quotients
