pub mod Answering
pub mod Carried
pub mod EditTurns
pub mod Once
pub mod Stages
pub mod Taken
