pub mod Bounds
pub mod HiddenPart
pub mod ListParts
pub mod Parts
pub mod Registers
pub mod RingFaults
pub mod RingSizes
pub mod StackArea
