pub mod Pools
pub mod StartedMachines
pub mod Parts
pub mod Beginnings
