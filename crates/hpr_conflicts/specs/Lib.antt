pub mod Private
pub mod Sentences
pub mod Groups
