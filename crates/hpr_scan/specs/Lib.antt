pub mod Machine
pub mod Place
pub mod Private
pub mod Scanner
pub mod Steps
pub mod Words
