pub mod Counts
pub mod Fakes
pub mod Files
pub mod Taken
