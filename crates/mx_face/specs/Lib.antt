pub mod Pages
pub mod RefusalJson
pub mod Visible
