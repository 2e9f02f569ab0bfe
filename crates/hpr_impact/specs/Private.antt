pub mod Marking
pub mod Members
pub mod Search
pub mod Ways
