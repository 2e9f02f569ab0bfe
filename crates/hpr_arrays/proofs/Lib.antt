pub mod Listed
pub mod Rows
pub mod Counts
pub mod NoElements
