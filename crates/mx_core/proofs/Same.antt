-- The list does the same as the window that it represents, where nothing is wild.
pub mod Effects
pub mod Refusals
pub mod Steps
pub mod Wild
pub mod Quiet
pub mod Seen
