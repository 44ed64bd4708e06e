pub mod Records
pub mod Labels
pub mod Encoding
pub mod Denotation
pub mod Checked
pub mod Read
