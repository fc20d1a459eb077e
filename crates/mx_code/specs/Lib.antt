pub mod Reasons
pub mod Operations
pub mod Instructions
pub mod LoadsAndStores
pub mod Told
pub mod SpecialRegisters
pub mod Puts
