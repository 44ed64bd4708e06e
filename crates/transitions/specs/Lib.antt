pub mod Table
pub mod Maps
pub mod Filling
pub mod Loading
