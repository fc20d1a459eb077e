pub mod CheckPages
