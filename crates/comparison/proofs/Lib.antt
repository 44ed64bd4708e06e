pub mod Runs
pub mod Promise
pub mod Answers
pub mod Named
mod Cases
