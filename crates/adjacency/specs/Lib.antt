pub mod Adjacency
pub mod Building
