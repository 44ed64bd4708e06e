pub mod Memo
pub mod Play
