-- What a step notes takes the step back.
pub mod Memory
pub mod Stacks
pub mod Steps
pub mod Usual
pub mod Calls
pub mod Notes
pub mod Works
