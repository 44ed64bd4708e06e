pub mod Carried
pub mod Bytes
pub mod Values
