mod Whole
pub mod Within
