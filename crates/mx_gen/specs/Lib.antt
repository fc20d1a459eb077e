pub mod ShownStatements
pub mod Generator
pub mod Program
