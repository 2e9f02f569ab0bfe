pub mod States
pub mod Faults
pub mod Acts
pub mod Observed
pub mod Outcomes
