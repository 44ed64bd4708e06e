pub mod Marks
pub mod Counts
pub mod Lowest
pub mod Reaching
pub mod Labels
pub mod Refusing
pub mod Promise
pub mod Cases
