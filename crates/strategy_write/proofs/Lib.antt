pub mod Writes
pub mod Answers
pub mod Rounds
pub mod Progress
