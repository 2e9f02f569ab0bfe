pub mod Pending
pub mod Expression
pub mod Laws
pub mod Read
pub mod Private
