pub mod States
pub mod Observed
