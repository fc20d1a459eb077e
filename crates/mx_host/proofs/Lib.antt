pub mod FaultCount
pub mod Keeping
pub mod NamedFiles
pub mod Names
pub mod Output
pub mod Serving
pub mod Start
pub mod Still
