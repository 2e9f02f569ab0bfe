pub mod Located
pub mod Sources
pub mod Shown
pub mod Private
