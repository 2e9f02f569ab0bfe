mod Rows
mod Lines
mod Places
mod Whole
mod Marked
mod TableRows
pub mod OneText
pub mod OneTable
pub mod Ends
pub mod SomeText
pub mod SomeTable
mod VertexRows
