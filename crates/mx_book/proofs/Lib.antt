pub mod Nearest
pub mod Earliest
pub mod WorkedRows
