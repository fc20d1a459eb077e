pub mod TokenTurns
pub mod SourceTurns
pub mod CaseTests
pub mod LoadTurns
pub mod WorkedRows
