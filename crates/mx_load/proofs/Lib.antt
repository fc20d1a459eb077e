pub mod Apart
pub mod Joined
pub mod Loading
pub mod Tails
pub mod Taken
pub mod InTurn
pub mod Words
