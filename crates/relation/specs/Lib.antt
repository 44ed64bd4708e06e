pub mod Matrix
pub mod Check
pub mod Tested
