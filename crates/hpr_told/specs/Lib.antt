pub mod Clashes
pub mod Outcomes
