pub mod Places
pub mod Laws
pub mod Lines
pub mod Private
