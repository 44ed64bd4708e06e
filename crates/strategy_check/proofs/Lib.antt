pub mod Entries
pub mod Replies
pub mod Checks
