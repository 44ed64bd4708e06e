pub mod Matrices
pub mod Rows
pub mod Places
pub mod Counts
pub mod Checks
pub mod Transitivity
pub mod Computed
pub mod Starts
