pub mod Near
pub mod Tables
pub mod Notations
pub mod Answers
pub mod Lists
pub mod Known
pub mod ExplainPages
