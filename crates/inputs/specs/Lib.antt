pub mod Inputs
pub mod Both
