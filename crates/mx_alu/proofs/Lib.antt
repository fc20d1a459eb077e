pub mod Words
pub mod Shifts
pub mod Floors
pub mod Products
pub mod Fields
pub mod Logic
pub mod Places
pub mod Named
mod Events
