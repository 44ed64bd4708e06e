pub mod Steps
pub mod Settling
pub mod Refutations
pub mod Searches
pub mod Lengths
