pub mod Entries
pub mod Cells
pub mod Promise
pub mod Plays
mod Cases
