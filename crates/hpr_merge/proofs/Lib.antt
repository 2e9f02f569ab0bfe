mod Searches
mod FirstLinks
mod AddedLinks
mod Widened
mod ConflictLists
mod ConflictPoints
mod Bits
mod Spreads
mod Past
mod LeastLinks
mod KnownLinks
mod Putting
mod NewLinks
mod KnownNumbers
pub mod MergedParts
pub mod EdgeStands
pub mod NoneListed
pub mod ToldConflicts
pub mod BoundedGraph
pub mod SomeConflicts
mod BothSides
mod ProgramStands
