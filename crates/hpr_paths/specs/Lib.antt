pub mod Spots
pub mod Roles
pub mod Successors
pub mod Numbers
pub mod Private
pub mod Times
pub mod Runs
