pub mod CountJson
pub mod ObjectJson
pub mod CountPages
