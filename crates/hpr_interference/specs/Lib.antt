pub mod Private
pub mod Groups
pub mod Answers
