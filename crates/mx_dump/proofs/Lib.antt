pub mod DumpLines
pub mod Dumps
