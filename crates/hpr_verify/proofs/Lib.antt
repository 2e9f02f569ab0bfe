mod Rows
pub mod Differences
mod LinkEdges
mod EdgesApart
pub mod Verdicts
pub mod SomeVerdict
