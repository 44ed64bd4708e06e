pub mod Copies
pub mod Writings
