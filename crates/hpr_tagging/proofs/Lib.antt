pub mod Steps
pub mod Whole
pub mod Orders
pub mod Labels
pub mod Gaps
