pub mod Pending
