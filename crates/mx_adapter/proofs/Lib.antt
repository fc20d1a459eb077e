pub mod Numbered
pub mod Lacking
pub mod Named
