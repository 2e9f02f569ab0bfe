pub mod ByReads
pub mod Answered
pub mod Opaque
pub mod Example
