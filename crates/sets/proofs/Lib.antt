pub mod Lists
pub mod Walks
pub mod Keeping
pub mod Rewritten
pub mod Sweep
pub mod Matrices
