pub mod Request
pub mod Commands
pub mod Arguments
pub mod Taken
pub mod Asked
pub mod Plain
pub mod Private
