pub mod Told
pub mod Pictures
