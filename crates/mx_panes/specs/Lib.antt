pub mod Memory
pub mod Registers
pub mod Stops
