pub mod Ask
pub mod Commands
pub mod Taken
pub mod Asked
pub mod Private
