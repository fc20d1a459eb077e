pub mod NearTurns
pub mod WholeTable
pub mod ListTurns
pub mod Covered
