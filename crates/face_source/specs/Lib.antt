pub mod SourceJson
pub mod SourcePages
pub mod ViewPages
