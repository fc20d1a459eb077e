pub mod ChangeTurns
pub mod LayoutTurns
pub mod Leads
pub mod SameImages
pub mod SameOctas
