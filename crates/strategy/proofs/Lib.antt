pub mod Checks
pub mod Loads
pub mod Writes
pub mod Promise
pub mod Entries
pub mod Within
mod Cases
