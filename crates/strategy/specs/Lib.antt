pub mod Check
pub mod Write
pub mod Steps
pub mod Within
