pub mod Call
pub mod Carried
