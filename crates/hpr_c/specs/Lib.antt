pub mod Packed
pub mod Ends
pub mod Call
pub mod Integrate
pub mod Data
pub mod Places
