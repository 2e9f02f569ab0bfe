pub mod Vertices
pub mod Answers
pub mod Verdicts
pub mod Outcomes
pub mod Refusals
