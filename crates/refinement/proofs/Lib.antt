pub mod Laws
pub mod Actions
pub mod Steps
pub mod Pending
pub mod Loop
pub mod Beginning
