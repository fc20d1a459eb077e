pub mod BuiltGlobals
pub mod Pools
pub mod StoredOctas
pub mod LoadedMachines
pub mod MemoryAtStart
pub mod StartedMachines
pub mod ListedStarts
