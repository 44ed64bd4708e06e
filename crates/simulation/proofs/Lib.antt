pub mod Starts
pub mod Promise
pub mod CallLaws
pub mod Cases
