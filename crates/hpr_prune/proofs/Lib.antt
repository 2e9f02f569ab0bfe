pub mod Shapes
mod Lists
pub mod OneProgram
pub mod Leads
pub mod Once
pub mod Down
pub mod Up
pub mod Stand
pub mod Cut
pub mod Definers
pub mod Entry
pub mod GraphOf
pub mod Kept
pub mod Sliced
