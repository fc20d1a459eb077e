pub mod Values
pub mod Orders
pub mod OneOption
pub mod Files
pub mod Usage
