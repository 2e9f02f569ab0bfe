mod Names
pub mod Parts
pub mod Alike
pub mod Member
pub mod Counted
pub mod First
mod Fitting
pub mod Regular
mod Refused
pub mod Counting
pub mod Sames
mod Amongst
pub mod Unchanged
pub mod SomeArrangements
mod LeafList
mod Searched
