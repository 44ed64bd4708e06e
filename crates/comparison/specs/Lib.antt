pub mod Run
pub mod Call
