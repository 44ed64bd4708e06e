pub mod Union
pub mod Records
pub mod Promise
pub mod Answers
mod Cases
