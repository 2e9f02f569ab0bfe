pub mod Conflicts
pub mod ManyPoints
