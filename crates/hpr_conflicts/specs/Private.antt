pub mod Keys
pub mod Hashed
pub mod Placed
