pub mod History
pub mod NoteLists
pub mod KeptRuns
pub mod KeptLists
