pub mod Lines
pub mod Lambda
pub mod Listing
pub mod Texts
