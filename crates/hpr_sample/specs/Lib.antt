pub mod Draws
pub mod Sample
pub mod Private
