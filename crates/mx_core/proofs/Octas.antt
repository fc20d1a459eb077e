-- Machines that hold octas, and what each step makes of them.
pub mod Answered
pub mod Effects
pub mod Lists
pub mod Stacks
pub mod Stages
pub mod Steps
pub mod Held
