pub mod Bytes
pub mod Completions
pub mod Contents
pub mod MachineLaws
pub mod Places
pub mod Scripts
pub mod Sound
pub mod Whole
