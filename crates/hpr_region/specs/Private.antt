-- What private functions and the checker alone need: no clause of a public call speaks of it.
pub mod Needs
pub mod Rivals
pub mod Summaries
