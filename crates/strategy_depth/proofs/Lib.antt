pub mod Replies
pub mod Marks
pub mod Steps
