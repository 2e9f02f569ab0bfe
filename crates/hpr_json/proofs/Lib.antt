mod Whole
mod Ascii
mod Marked
pub mod Places
pub mod Rows
