pub mod Any
pub mod Programs
pub mod Private
pub mod Pruned
pub mod KeptLaw
