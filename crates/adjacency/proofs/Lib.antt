pub mod Places
pub mod Building
pub mod Built
pub mod Words
pub mod Lookups
