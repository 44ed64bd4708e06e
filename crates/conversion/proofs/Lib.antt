pub mod Copies
pub mod InKind
pub mod Written
pub mod Converted
pub mod Rules
pub mod Promise
pub mod Outcomes
pub mod Cases
