pub mod NoteLists
pub mod Histories
pub mod Rows
pub mod KeptSteps
pub mod KeptLists
