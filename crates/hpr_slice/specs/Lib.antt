pub mod Vertices
pub mod Neighbours
pub mod Steps
