pub mod Bits
pub mod Rows
pub mod Counts
pub mod Tests
pub mod Lowest
