pub mod Index
pub mod Labels
pub mod Maps
pub mod Bytes
