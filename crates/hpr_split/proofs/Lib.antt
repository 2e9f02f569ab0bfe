pub mod Renamed
pub mod SplitGraph
pub mod NewTags
mod Chosen
pub mod Answer
