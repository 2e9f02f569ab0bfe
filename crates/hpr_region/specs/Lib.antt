pub mod Flows
pub mod Plans
pub mod Tables
pub mod States
pub mod Openings
pub mod Making
pub mod Private
