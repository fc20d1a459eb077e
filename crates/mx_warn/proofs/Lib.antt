pub mod WarningTurns
pub mod WorkedRows
