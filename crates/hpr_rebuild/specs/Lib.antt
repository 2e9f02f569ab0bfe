pub mod Settled
pub mod Parts
pub mod Candidates
pub mod Tries
pub mod Rebuilding
pub mod FirstClash
